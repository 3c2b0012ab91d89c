pub mod Bearers
pub mod Lists
pub mod Positions
pub mod Ranges
pub mod Tables
pub mod WellFormed
pub mod Inner
pub mod Changes

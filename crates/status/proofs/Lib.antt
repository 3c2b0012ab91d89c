pub mod Values
pub mod Writing
pub mod Taking
pub mod Theorems
pub mod Examples

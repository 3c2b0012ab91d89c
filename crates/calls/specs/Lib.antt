pub mod Reply
pub mod Steps
pub mod Lay
pub mod Modify
pub mod Others
pub mod Changes
pub mod Checks

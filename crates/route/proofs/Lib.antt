pub mod Firsts
pub mod Whys
pub mod Theorems
pub mod Rules

pub mod Layout
pub mod Read
pub mod Write
pub mod Handle
pub mod Meaning
pub mod Inner

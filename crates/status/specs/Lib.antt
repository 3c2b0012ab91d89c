pub mod Value
pub mod Write
pub mod Take
pub mod Inner

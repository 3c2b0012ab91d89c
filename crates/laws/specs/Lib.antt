pub mod Index
pub mod Lists
pub mod Numbers
pub mod Octets
pub mod Says

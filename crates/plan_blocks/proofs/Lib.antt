pub mod Lists
pub mod Merged
pub mod Numbering
pub mod Ports
pub mod Raising

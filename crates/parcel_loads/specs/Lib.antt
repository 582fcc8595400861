pub mod Passing
pub mod Flight
pub mod Follows

pub mod Slots
pub mod Clashes
pub mod Steps

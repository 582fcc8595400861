pub mod Reading
pub mod Right
pub mod Order
pub mod Steps
pub mod Grow
pub mod Whole
pub mod Ends

pub mod Plain
pub mod Given
pub mod Steps
pub mod Rule
pub mod Passes

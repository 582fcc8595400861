pub mod Answers
pub mod Placed
pub mod Ends
pub mod Steps
pub mod Turns

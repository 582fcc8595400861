pub mod Closed
pub mod Ended

pub mod Edge
pub mod Fake
pub mod Fault
pub mod Files
pub mod Held
pub mod Taken

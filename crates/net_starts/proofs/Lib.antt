pub mod Ports
pub mod Releasing

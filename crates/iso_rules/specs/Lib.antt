pub mod Station
pub mod Hold
pub mod Image
pub mod Turns
pub mod Lockstep
pub mod Legal

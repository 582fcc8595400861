pub mod Reading
pub mod TakingLemmas
pub mod InPlace
pub mod HeldLemmas
pub mod Placing
pub mod OverCycles
mod Worked

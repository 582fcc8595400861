pub mod Cycle
pub mod Left
pub mod Replayed

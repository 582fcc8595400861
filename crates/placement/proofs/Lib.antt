pub mod BestPhase
pub mod Ends
pub mod Jumps
pub mod Offsets
pub mod Records
pub mod Steps
pub mod Tables

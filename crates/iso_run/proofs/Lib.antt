pub mod Places
pub mod Stepping
pub mod OneTurn
pub mod OneCycle
pub mod OpenedApps
pub mod Begun
pub mod Recorded

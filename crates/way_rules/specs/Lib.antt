pub mod Fits
pub mod Placed
pub mod Scan
pub mod Slots

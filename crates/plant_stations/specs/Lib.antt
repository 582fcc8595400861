pub mod Loaded
pub mod Taken
pub mod Whole
pub mod Stations

pub mod Cycle
pub mod Periods
pub mod Text
pub mod Valid
pub mod Wiring
pub mod Words

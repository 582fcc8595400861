pub mod Greatest
pub mod Schedules
pub mod Text

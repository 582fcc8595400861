pub mod ClockBreaks
pub mod Judging

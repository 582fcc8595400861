pub mod Accepted
pub mod Alike
pub mod Bytes
pub mod Counting
pub mod Delayed
pub mod Entries
pub mod Finding
pub mod FrameRules
pub mod HeaderRules
pub mod Known
pub mod Links
pub mod Lists
pub mod Merged
pub mod Once
pub mod OneBundles
pub mod OneFit
pub mod OneText
pub mod PeriodRules
pub mod Placing
pub mod Routed
pub mod Shapes
pub mod Shifts
pub mod Sliding
pub mod Sorted
pub mod Valid
pub mod Ways
mod Line
mod LineExample
mod RelativeExample

pub mod EachApp
pub mod Judged
pub mod Wholeness

pub mod Judging
pub mod Matching
pub mod Playing
pub mod Rows

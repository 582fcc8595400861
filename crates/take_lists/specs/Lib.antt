pub mod Takes
pub mod Rows

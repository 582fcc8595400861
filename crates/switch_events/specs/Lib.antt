pub mod Answered
pub mod Released

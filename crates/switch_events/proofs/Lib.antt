pub mod Lengths
pub mod Answers
pub mod Released

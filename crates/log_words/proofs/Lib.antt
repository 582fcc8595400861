pub mod Each
pub mod Numbered
pub mod Played

pub mod Layouts
pub mod Tables
pub mod Placings
pub mod Searches
pub mod Records

pub mod Clocks
pub mod Domain
pub mod Events
pub mod Lines
pub mod Report
pub mod Table
pub mod World

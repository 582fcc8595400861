pub mod Events
pub mod Places
pub mod Run

pub mod Global
pub mod Sync

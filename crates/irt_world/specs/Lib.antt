pub mod Forwardings
pub mod Rows
pub mod Seeded

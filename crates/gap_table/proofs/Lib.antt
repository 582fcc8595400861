pub mod Inserted
pub mod Ordered

pub mod Building
pub mod Depth
pub mod Documents
pub mod Reread
pub mod Restated

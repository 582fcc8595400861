pub mod Named
pub mod Views
pub mod Buffers
pub mod Ties
pub mod Taking
pub mod Publishing

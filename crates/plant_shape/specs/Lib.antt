pub mod Keys
pub mod Shape

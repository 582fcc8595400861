pub mod Kinds
pub mod Sealed

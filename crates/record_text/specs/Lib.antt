pub mod Cursor
pub mod Grown
pub mod Text

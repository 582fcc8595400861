pub mod Clocks
pub mod Reading
pub mod Rules
pub mod Stated

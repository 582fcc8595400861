pub mod Clocks
pub mod Meets
pub mod Rules
pub mod Words

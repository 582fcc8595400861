pub mod Numbers
pub mod Steps
pub mod Codec
pub mod Blocks
pub mod Loops
pub mod Rules

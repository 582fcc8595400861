pub mod Shape
pub mod Fit
pub mod Order
pub mod Blocks
pub mod Printed
pub mod Moves
pub mod Delays

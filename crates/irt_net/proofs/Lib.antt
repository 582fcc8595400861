pub mod Periods
pub mod Begun
pub mod Carrying
pub mod Coming
pub mod Cycles
pub mod Opening

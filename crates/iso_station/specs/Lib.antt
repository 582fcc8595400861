pub mod Mark
pub mod Held
pub mod Kept
pub mod Consumer
pub mod Taking
pub mod Provider
pub mod Cycles

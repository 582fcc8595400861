pub mod Size
pub mod World
pub mod Run
pub mod Safe

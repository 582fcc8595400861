pub mod Clocks
pub mod Trees
pub mod Walks
pub mod NextHops
pub mod Routes

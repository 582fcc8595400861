pub mod Ends
pub mod Periods
pub mod Blocks
pub mod Entries
pub mod Bundles

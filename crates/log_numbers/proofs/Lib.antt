pub mod Keeping
pub mod LastItem
pub mod Rising

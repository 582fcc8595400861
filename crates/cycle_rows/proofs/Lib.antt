pub mod Lists
pub mod Ordered
pub mod Journals
pub mod Clear
pub mod Apart
pub mod Counted
pub mod Once

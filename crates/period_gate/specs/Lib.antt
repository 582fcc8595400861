pub mod Gate
pub mod SentList

pub mod Made
pub mod Meeting

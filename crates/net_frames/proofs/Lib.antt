pub mod Range
pub mod Times
pub mod Playing
pub mod Starting
pub mod Demanded
pub mod Answering
pub mod Running
pub mod Ended

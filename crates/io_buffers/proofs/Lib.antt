pub mod Publications
pub mod ControlWord
pub mod Kept
pub mod Seats
pub mod Allowed
pub mod StepLists
pub mod Going
pub mod PassLemmas

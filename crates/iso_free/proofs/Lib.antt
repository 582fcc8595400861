pub mod Begin
pub mod Legality
pub mod Openings

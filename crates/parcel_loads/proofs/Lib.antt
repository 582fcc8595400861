pub mod Passings
pub mod Walking

pub mod Gates
pub mod Invariant
pub mod Loads
pub mod Notes
pub mod Outlets
pub mod Parcels

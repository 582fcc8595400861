pub mod MessageLaw
pub mod RelayLaw
pub mod SlaveLaw

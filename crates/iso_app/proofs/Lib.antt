pub mod SealLaw

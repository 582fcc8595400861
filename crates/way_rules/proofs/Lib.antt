pub mod Bits
pub mod Clashes
pub mod Entries
pub mod OffsetTests
pub mod OneWay
pub mod RedTests
pub mod Scans
pub mod SlotLemmas

pub mod GreatestLemmas
pub mod OneText
pub mod PlannedLemmas
pub mod RedLemmas
pub mod ScheduleLemmas

pub mod Late
pub mod Outcomes
pub mod Settled
pub mod Verdicts

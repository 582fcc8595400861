pub mod Holding
pub mod Spacing
pub mod Images
pub mod Serving
pub mod Recent
pub mod Lockstepped
pub mod PlayedRuns
pub mod LegalRuns
mod PairRun

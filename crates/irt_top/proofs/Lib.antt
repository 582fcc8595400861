pub mod CallLemmas
mod CauseLemmas
mod CheckLemmas
mod CheckOne
mod FileLemmas
mod GenAsked
mod GenLemmas
mod GenSteps
mod NameLemmas
mod OneLemmas
mod OutcomeLemmas
mod PlanLemmas
pub mod PlanOne
mod PlanSteps
pub mod RangeLemmas
mod RunCame
mod RunComes
mod RunLemmas
pub mod RunOne
pub mod RunSafe
mod SpellingLemmas
mod StoreOrder
mod SyncLemmas

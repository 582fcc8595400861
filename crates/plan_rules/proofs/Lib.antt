pub mod AlongWay
pub mod Apart
pub mod Arrivals
pub mod Exactly
pub mod Held
pub mod Kept
pub mod OneWay
pub mod Playing
pub mod PortPeriods
pub mod Sendings
pub mod StartWindow
pub mod Starts
pub mod Times
pub mod Verdicts
pub mod Wires
mod PairExample
mod PlanExample
mod AcceptedExample
mod WorkedExample

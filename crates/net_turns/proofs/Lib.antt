pub mod Demanded
pub mod HavePorts

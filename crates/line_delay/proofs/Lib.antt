pub mod HonestLaw
pub mod MedianLaw

pub mod PairLaws
pub mod Sorting
pub mod SweepLaws

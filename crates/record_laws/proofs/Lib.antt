pub mod Fields
pub mod Names
pub mod RowCut
pub mod LineCut
pub mod LinesFit
pub mod RowsFound
pub mod Through
pub mod Found

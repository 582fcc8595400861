pub mod Order
pub mod Rows
pub mod Journal
pub mod Apart
pub mod Parcels
pub mod Safe

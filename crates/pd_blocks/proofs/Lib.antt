pub mod GlobalLaws
pub mod SyncGroups
pub mod SyncLaws

pub mod SentLaw
pub mod SentOrder

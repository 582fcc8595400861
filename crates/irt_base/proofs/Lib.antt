pub mod CycleLemmas
pub mod TextLemmas
pub mod WordLaws

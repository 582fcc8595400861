pub mod EndedLemmas
pub mod OneStatus
pub mod OneWay
pub mod PrintLemmas
pub mod ShelfLemmas
pub mod StepLemmas

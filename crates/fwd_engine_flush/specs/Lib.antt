pub mod FreePlaces
pub mod LoopWorld

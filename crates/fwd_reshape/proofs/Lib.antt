pub mod Places
pub mod Depths
pub mod LiftLemmas

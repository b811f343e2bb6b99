pub mod Binding
pub mod MoreTurns
pub mod LastTick
pub mod TickedRun
pub mod EmptyRecovery

pub mod FlushProgram
pub mod Calls
pub mod Pushes
pub mod Outcome

pub mod Points
pub mod StoredBatches
pub mod TakenMessages
pub mod BatchSurvival
pub mod KilledProcess
pub mod KeptBatches

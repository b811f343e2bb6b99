pub mod KeepsBytes
pub mod CallEffects
pub mod Invariant
pub mod UnchangedFiles
pub mod AtomicFiles
pub mod DiskPrograms
pub mod OneByte
pub mod ReadWhole
pub mod ConsistentFiles
pub mod LogGrowth
pub mod RisingLinks
pub mod LoopAnswers
pub mod Executions
pub mod CrashPointLemmas
pub mod AndThen
pub mod SinceLemmas
mod LogValues

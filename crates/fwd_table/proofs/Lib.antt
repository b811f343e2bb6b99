pub mod DueIndex
pub mod DueRange
pub mod Usage
pub use Rattle.fwd_table_rows.proofs.Chunks
pub use Rattle.fwd_table_rows.proofs.DueOrder
pub use Rattle.fwd_table_rows.proofs.MaskRoutes
pub use Rattle.fwd_table_rows.proofs.Masks
pub use Rattle.fwd_table_rows.proofs.SlotRows

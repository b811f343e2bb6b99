pub mod HeldOffsets

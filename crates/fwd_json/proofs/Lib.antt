pub mod ObjectPairs
pub mod TextLoops
mod FloatNumbers
mod TokenTurns
mod Putting
mod WholeValues

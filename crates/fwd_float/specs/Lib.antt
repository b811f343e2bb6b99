pub mod Format
pub mod Shortest
pub mod Layout
pub mod FloatText
pub mod Limbs
pub mod Ratio
pub mod Cut
pub mod Laws

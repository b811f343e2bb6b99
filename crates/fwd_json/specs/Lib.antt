pub mod LinePairs
pub mod Text
pub mod FloatLaws
pub mod PutPair
pub mod WholeVal

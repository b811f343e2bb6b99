pub mod EventParts
pub mod PartwiseDecoding
pub mod DecodeAnswers
pub mod EventLists
pub mod Answers
pub mod EventEncodings
pub mod EventPrefix

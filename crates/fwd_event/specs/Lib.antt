pub mod Event
pub mod ReadAnswers
pub mod EventPrefix

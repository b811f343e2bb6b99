pub mod Numbers
pub mod Groups
pub mod FormatSteps
pub mod PlainEvents
pub mod LentFields

pub mod SectionSteps
pub mod Always
pub mod Table
pub mod Requirements

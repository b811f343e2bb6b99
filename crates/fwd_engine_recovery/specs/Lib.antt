pub mod LoadedAs
pub mod Adoption
pub mod FollowedPaths

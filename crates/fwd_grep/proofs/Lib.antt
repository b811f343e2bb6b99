pub mod ThreadSafety
mod Images

pub mod Bare
pub mod Finds
pub mod Steps

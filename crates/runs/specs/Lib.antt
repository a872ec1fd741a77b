pub mod Law
pub mod Runs

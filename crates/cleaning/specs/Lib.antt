pub mod Cleaning
pub mod Once
pub mod Steps

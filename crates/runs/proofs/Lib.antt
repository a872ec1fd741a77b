pub mod Lawful
pub mod SoFar
pub mod Steps

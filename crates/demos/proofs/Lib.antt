pub mod Lines
pub mod Mounting
pub mod Playing

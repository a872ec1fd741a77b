pub mod Cuts
pub mod Laws
pub mod Loads
pub mod Rows
pub mod Steps

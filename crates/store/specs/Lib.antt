pub mod Stores
pub mod Stored
pub mod Running
pub mod Changes
pub mod Opening
pub mod Making
pub mod Asked

pub mod Coded
pub mod Spots
pub mod Rests
pub mod States
pub mod Changes
pub mod Fresh

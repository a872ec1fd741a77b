pub mod Hiding
pub mod Highest
pub mod Readings

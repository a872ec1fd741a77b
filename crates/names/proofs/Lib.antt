pub mod Taken
pub mod Mirrored

pub mod Hiders
pub mod Sizes
pub mod Tells

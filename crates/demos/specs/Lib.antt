pub mod Story
pub mod Telling
pub mod Demos

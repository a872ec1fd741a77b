pub mod Format
pub mod Codes
pub mod Blanks
pub mod Heads
pub mod Leaves
pub mod Places

pub mod Alikes
pub mod BareBlocks
pub mod Bares
pub mod Loading
pub mod Onces
pub mod Rows
pub mod Shrinking

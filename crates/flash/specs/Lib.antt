pub mod Chunks
pub mod Faults
pub mod Model
pub mod Reads
pub mod Writes
pub mod Blocks
pub mod Laws
pub mod Words

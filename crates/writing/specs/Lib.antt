pub mod Writing
pub mod Notes

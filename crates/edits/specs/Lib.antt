pub mod Tables
pub mod Edits
pub mod Lending
pub mod Collects
pub mod Puts
pub mod Creating
pub mod Writing

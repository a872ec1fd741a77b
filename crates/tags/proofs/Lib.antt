pub mod Finding
pub mod Reducing
pub mod Scans

pub mod Reads
pub mod Lists
pub mod Questions
pub mod Counts

pub mod Answers
pub mod Cat
pub mod Formats
pub mod Info
pub mod Listing

pub mod Answering
pub mod Columns
pub mod Finding
pub mod Images
pub mod Listing
pub mod Parts
pub mod Telling

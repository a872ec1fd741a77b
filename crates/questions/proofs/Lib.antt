pub mod Laying
pub mod Fetching
pub mod Mirrored
pub mod FileBytes
pub mod Listing
pub mod Knowing
pub mod Asking
pub mod Counting

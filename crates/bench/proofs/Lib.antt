pub mod Remaking
pub mod Acting
pub mod Counting

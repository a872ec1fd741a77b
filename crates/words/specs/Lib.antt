pub mod Names
pub mod Numbers
pub mod Streams
pub mod Parsing
pub mod Usage

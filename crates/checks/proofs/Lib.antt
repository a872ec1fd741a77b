pub mod Uses
pub mod Accepted
pub mod Room
pub mod Known
pub mod Light

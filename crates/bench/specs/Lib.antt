pub mod Plans
pub mod Benches
pub mod Acts
pub mod Rows
pub mod Laws

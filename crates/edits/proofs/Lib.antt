pub mod Over
pub mod Refusing
pub mod Lending
pub mod Turning
pub mod Making
pub mod Trimming
pub mod Filling
pub mod Putting

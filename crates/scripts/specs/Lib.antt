pub mod Numbers
pub mod Bytes
pub mod Splits
pub mod Misreads
pub mod Operands
pub mod Forms
pub mod Parsing

pub mod Firsts
pub mod Cutting
pub mod Spots
pub mod Lightest

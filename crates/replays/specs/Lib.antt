pub mod Devices
pub mod Answers
pub mod Calls
pub mod Saves
pub mod Machines

pub mod Padding
pub mod Tickets
pub mod Blanks

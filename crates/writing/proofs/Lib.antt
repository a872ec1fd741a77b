pub mod Noted
pub mod Refused
pub mod Played

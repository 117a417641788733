pub mod Deciding
pub mod Turns

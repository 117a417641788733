pub mod Answers
pub mod Dry
pub mod Hex
pub mod Names
pub mod Outcomes
pub mod Settings
pub mod Words

pub mod Quotients
pub mod Wrapping
pub mod Holding

pub mod Defining
pub mod Places
pub mod Sizing
pub mod Totals

pub mod Calls
pub mod Rows
pub mod Sizes
pub mod Sums

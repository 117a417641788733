pub mod Lists
pub mod Backward
pub mod Vectors

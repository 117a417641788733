pub mod Images
pub mod Runs

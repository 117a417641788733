pub mod Stack
pub mod Waiting
pub mod Parts

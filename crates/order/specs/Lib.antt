pub mod Waiting
pub mod Table
pub mod Picking
pub mod Answers

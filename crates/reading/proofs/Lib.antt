pub mod Takes
pub mod Gathering
pub mod Endings
pub mod Steps
pub mod Loops
pub mod Loading

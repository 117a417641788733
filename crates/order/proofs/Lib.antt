pub mod Somes
pub mod Waitings
pub mod Tables
pub mod Circles
pub mod Marks
pub mod Picks
pub mod Rounds
pub mod Answering

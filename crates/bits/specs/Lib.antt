pub mod Bits
pub mod Overwriting

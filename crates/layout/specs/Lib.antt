pub mod Vectors
pub mod VectorLaws
pub mod Blanks
pub mod Layout
pub mod Held

pub mod Reckonings
pub mod Points
pub mod Hundredths
pub mod Laws
pub mod Examples

pub mod Standing
pub mod Undoing
pub mod CellTrips
pub mod BlockTrips
pub mod Sizes
pub mod Trips

pub mod Images
pub mod Firsts
pub mod Listings
pub mod Rows

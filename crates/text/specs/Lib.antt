pub mod Listing
pub mod Panel

pub mod Listings
pub mod Pieces
pub mod Sizes
pub mod Examples

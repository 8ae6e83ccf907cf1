pub mod Shots
pub mod Bounds
pub mod Fronts
pub mod Scans
pub mod Ways
pub mod Examples

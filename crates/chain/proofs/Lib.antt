pub mod Places
pub mod Flat
pub mod Marks
pub mod Scans

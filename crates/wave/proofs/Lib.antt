pub mod Ways
pub mod Lines
pub mod Lengths

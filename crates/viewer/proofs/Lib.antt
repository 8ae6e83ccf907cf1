pub mod Lines
pub mod Frames
pub mod Shots
pub mod Viewed
pub mod Only
pub mod Examples

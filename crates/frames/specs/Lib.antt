pub mod Stamps
pub mod Values
pub mod Frames

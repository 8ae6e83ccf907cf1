pub mod Failures
pub mod Parts
pub mod Sizes
pub mod Turns

pub mod Failures
pub mod Pages
pub mod Zeros

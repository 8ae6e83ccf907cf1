pub mod Places
pub mod Pages
pub mod Whole

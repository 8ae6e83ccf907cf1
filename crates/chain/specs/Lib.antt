pub mod Places
pub mod Chain
pub mod Decode
pub mod Marks

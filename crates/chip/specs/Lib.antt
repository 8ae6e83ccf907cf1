pub mod Chip
pub mod Sound

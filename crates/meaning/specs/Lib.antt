pub mod Words
pub mod Sound
pub mod Beyond
pub mod Match
pub mod Mode2
pub mod Settling
pub mod Sessions

pub mod Observer
pub mod Words
pub mod Demands
pub mod Asks

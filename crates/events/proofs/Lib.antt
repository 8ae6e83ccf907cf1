pub mod Ways
pub mod Keep
pub mod Touch
pub mod Outcomes

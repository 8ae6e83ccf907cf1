pub mod Keep
pub mod Touch

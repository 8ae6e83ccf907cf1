pub mod Splices
pub mod Chunks
pub mod Decimals
pub mod Rows
pub mod Examples

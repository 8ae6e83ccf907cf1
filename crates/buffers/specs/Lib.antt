pub mod Text
pub mod Splice
pub mod Digits
pub mod Rows

pub mod Fields
pub mod Rules
pub mod Sound

pub mod Wave

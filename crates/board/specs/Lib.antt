pub mod Board
pub mod Step
pub mod Halves
pub mod Plans

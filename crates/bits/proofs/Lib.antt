pub mod Logic
pub mod Tests
pub mod BitLaws
pub mod Match

pub mod Evaluate
pub mod Work

pub mod Form
pub mod Outcome

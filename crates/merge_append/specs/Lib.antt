pub mod Append
pub mod Runs
pub mod NodeWords

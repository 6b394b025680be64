pub mod Due
pub mod Counts

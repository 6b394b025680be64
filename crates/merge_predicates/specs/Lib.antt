pub mod Functions
pub mod Starts
pub mod Clauses
pub mod Depths

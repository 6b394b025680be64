pub mod Line
pub mod Exact

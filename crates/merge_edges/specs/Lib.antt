pub mod Edge
pub mod Edges

pub mod Nodes
pub mod Text

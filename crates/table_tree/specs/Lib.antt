pub mod Sets
pub mod Nodes
pub mod Checked
pub mod Members

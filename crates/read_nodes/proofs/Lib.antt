pub mod NodesLaws
pub mod NodesRows

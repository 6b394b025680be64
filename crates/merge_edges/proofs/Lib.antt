pub mod EdgeLaws
pub mod EdgesLaws

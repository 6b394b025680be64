pub mod BoundLaws
pub mod WeightLaws
pub mod RoundLaws
pub mod PartLaws

pub mod TakingLaws
pub mod MovesLaws
pub mod GatheringLaws

pub mod PredicateLaws
pub mod PredicateRows
pub mod EdgeLaws
pub mod EdgeRows

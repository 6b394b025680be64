pub mod Predicate
pub mod Edge

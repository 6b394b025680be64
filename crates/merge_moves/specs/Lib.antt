pub mod Capping
pub mod Plan
pub mod Pick
pub mod Takers

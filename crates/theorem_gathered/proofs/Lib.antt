pub mod Labels
pub mod GathersAll
pub mod Handed

pub mod OwnerLaws
pub mod Meaning

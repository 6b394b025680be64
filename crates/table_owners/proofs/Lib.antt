pub mod CodeLaws
pub mod OwnerLaws

pub mod CodeLaws
pub mod Meaning

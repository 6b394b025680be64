pub mod WritesLaws
pub mod Meaning

pub mod CodeLaws
pub mod SettledLaws

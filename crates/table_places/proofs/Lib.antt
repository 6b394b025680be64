pub mod CodeLaws
pub mod LayoutLaws
pub mod OutlineLaws
pub mod Standing
pub mod StartLaws
pub mod Opened
pub mod AgreeLaws

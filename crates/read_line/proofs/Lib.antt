pub mod Kept
pub mod DispatchLaws
pub mod ReadsLines

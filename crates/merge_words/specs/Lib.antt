pub mod Head
pub mod Sync
pub mod Survey
pub mod MergedSheet
pub mod Linearize

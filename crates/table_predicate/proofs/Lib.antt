pub mod ReachLaws
pub mod Steps
pub mod Standing
pub mod Forward
pub mod Back
pub mod WalkLaws
pub mod ScanLaws

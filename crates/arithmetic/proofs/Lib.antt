pub mod Order
pub mod Signed
pub mod CutLaws
pub mod Intervals

pub mod Exact
pub mod SameSheet
pub mod SameMerged
pub mod Without
pub mod Dropped

pub mod SortLaws
pub mod ScratchLaws
pub mod FormedLaws

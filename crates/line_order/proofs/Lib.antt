pub mod DueLaws
pub mod CountsLaws
pub mod KeyLaws
pub mod CappedLaws

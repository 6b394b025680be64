pub mod ReadBack
pub mod Items
pub mod Steps
pub mod NodeLaws
pub mod Meaning
pub mod FewNodes
pub mod Work

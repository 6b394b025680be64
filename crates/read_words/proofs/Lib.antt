pub mod CodeLaws
pub mod ReadLaws
pub mod Agree
pub mod Answers

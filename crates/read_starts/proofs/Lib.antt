pub mod PartLaws
pub mod JudgingLaws
pub mod WordsLaws
pub mod TextLaws
pub mod Least
pub mod StartRows

pub mod AppendLaws
pub mod Fronts
pub mod NodeLaws

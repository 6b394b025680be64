pub mod MergeLaws
pub mod OutcomeLaws

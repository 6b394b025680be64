pub mod Growing
pub mod NodeText
pub mod Text
pub mod Answer

pub mod RunAnswer
pub mod TableSize

pub mod Number
pub mod Range

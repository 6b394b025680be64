pub mod Shape
pub mod Numbers

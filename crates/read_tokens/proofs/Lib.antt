pub mod ShapeLaws
pub mod NumbersLaws

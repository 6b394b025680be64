pub mod RunLaws
pub mod SizeLaws

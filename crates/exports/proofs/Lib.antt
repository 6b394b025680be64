pub mod LineBound
pub mod MergeBound
pub mod NumberLaws
pub mod OpenCases
pub mod RunBound
pub mod SizeBound

pub mod Filled
pub mod WalkLaws
pub mod CodeLaws
pub mod RowLaws
pub mod StateLaws
pub mod KnownLaws

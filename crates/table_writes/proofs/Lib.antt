pub mod BitLaws
pub mod CodeLaws
pub mod MaskLaws
pub mod WrittenLaws

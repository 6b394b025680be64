pub mod BitsLaws
pub mod WalkLaws
pub mod MaskLaws
pub mod EdgeLaws
pub mod OffersLaws

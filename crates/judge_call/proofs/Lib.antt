pub mod CallLaws
pub mod TakenLaws
pub mod OwnerLaws
pub mod StepLaws
pub mod JudgementLaws
pub mod NumberLaws

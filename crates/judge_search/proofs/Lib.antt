pub mod Unpruned
pub mod TakerLaws
pub mod SearchExamples
pub mod FoundSteps
pub mod MaskLaws
pub mod FoundLaws

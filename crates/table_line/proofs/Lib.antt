pub mod NumberLines
pub mod PredicateLines
pub mod CompositionLines
pub mod LineLaws
pub mod PredicateCode
pub mod CompositionCode
pub mod CodeLaws

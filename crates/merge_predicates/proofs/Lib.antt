pub mod FunctionLaws
pub mod StartLaws
pub mod ClauseLaws
pub mod DepthLaws

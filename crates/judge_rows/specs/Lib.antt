pub mod Phases
pub mod States
pub mod Each
pub mod RowTests
pub mod Checks

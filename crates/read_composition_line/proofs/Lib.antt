pub mod SyncLaws
pub mod CompositionLaws
pub mod CompositionRows

pub mod Sync
pub mod Composition

pub mod Find
pub mod Write

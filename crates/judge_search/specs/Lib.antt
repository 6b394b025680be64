pub mod Search
pub mod Masks
pub mod Found

pub mod Scan
pub mod Check

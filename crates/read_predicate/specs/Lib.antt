pub mod Scratch
pub mod Formed

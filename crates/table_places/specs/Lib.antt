pub mod AtMost
pub mod Outline
pub mod Layout
pub mod Own
pub mod Starts

pub mod Taking
pub mod Moves
pub mod Gather

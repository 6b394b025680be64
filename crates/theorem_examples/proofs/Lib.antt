pub mod Computing
pub mod Cases
pub mod Oven
pub mod Refused
pub mod Starts
pub mod Writes
pub mod Wide
pub mod Owners

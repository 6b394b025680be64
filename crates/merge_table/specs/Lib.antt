pub mod Linearization

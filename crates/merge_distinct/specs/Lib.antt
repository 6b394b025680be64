pub mod Equality
pub mod Firsts
pub mod Distinct

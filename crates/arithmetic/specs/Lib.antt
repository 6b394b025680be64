pub mod Cut
pub mod Values

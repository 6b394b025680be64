pub mod Rows
pub mod Calls
pub mod Order
pub mod Exactly

pub mod AppendLaws
pub mod Joined
pub mod Stored

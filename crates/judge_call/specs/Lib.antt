pub mod Answers
pub mod Taken
pub mod Owners
pub mod Calls

pub mod Texts
pub mod Judged
pub mod Words
pub mod Rows

pub mod List
pub mod Token
pub mod Lists
pub mod Read

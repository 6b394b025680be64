pub mod Demand
pub mod AsBefore
pub mod Owned
pub mod Foreign

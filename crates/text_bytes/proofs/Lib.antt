pub mod Places
pub mod FindLaws
pub mod Parting
pub mod BytesLaws
pub mod WriteLaws
pub mod Splits

pub mod EqualityLaws
pub mod SameHash
pub mod FirstsLaws
pub mod CopyingLaws
pub mod WholeLaws

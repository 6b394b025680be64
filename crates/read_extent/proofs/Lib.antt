pub mod CallsLaws
pub mod PlacesLaws
pub mod Extents

pub mod Positions
pub mod Table3Is
pub mod Definition4Is
pub mod Unique
pub mod SoundIs

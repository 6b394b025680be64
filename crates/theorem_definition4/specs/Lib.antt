pub mod Table2
pub mod Table3
pub mod Sound
pub mod Definition4

pub mod Cueing
pub mod Legs

pub mod Seating
pub mod Legs
pub mod Asked

pub mod Layer
pub mod Seats
pub mod Legs
pub mod Laws
pub mod Lawful
pub mod Layers

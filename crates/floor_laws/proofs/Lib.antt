pub mod Writes
pub mod Loops
pub mod Moving
pub mod Legs
pub mod Changing

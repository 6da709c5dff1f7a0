pub mod Of
pub mod Saved
pub mod Slips

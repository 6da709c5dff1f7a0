pub mod Levels
pub mod Places

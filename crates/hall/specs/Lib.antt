pub mod Of
pub mod Told
pub mod ToldOn

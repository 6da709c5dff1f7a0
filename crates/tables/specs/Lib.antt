pub mod Crafts
pub mod Tables
pub mod Of

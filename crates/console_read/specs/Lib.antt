pub mod Keywords
pub mod Shapes
pub mod Parsing
pub mod Gates

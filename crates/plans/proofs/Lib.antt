pub mod Straight
pub mod Breaks
pub mod Sizes
pub mod Flown
pub mod Tables
pub mod Casts
pub mod Routed

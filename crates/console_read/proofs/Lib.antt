pub mod Filed
pub mod Counts

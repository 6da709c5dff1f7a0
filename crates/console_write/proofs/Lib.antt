pub mod Hexing
pub mod Records

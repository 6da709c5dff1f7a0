pub mod Rest
pub mod Histories

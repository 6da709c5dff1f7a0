pub mod Tales
pub mod Pairs
pub mod Legs
pub mod Machine
pub mod Reports
pub mod Changes

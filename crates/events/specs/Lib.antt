pub mod Machine
pub mod Reports
pub mod Changes

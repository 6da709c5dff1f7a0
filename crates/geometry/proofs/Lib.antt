pub mod Bound
pub mod Quotients
pub mod Wrong

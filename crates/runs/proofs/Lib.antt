pub mod Nexts
pub mod Going
pub mod Rows

pub mod Followers
pub mod Rows

pub mod Encounters
pub mod Running
pub mod Listing

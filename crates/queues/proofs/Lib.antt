pub mod Firsts
pub mod Changed

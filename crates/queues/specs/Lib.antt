pub mod Meanings
pub mod Laws
pub mod Slots
pub mod Entries
pub mod EntryOrder

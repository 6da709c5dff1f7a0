pub mod Granting
pub mod Firing
pub mod Dues
pub mod Saving

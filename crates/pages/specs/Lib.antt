pub mod Kinds
pub mod Of
pub mod Laws
pub mod Encounters

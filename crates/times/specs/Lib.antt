pub mod Refusals
pub mod Of
pub mod Laws
pub mod Orders
pub mod Ordered
pub mod Texts

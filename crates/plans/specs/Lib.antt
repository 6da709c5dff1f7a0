pub mod Of
pub mod Lines
pub mod Laws
pub mod Routes

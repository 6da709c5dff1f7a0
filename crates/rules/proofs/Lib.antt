pub mod Ring
pub mod Divide
pub mod Order
pub mod Stamped
pub mod Unique
pub mod Made
pub mod Ordering

pub mod Certificates
pub mod Points
pub mod Quick
pub mod Turns

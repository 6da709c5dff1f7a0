pub mod Texts
pub mod Pages

pub mod Lent
pub mod Texts
pub mod Numbers
pub mod Digits

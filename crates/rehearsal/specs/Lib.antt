pub mod Asking
pub mod Cues
pub mod Filings
pub mod Reading
pub mod Texts
pub mod Sheets

pub mod Columns
pub mod FirstWords
pub mod Left
pub mod Numbered
pub mod Refusals
pub mod Texts

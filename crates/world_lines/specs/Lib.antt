pub mod Crates
pub mod Lent
pub mod NameTexts
pub mod Rows

pub mod Narrowing
pub mod Tabled

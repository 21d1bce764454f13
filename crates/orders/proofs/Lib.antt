pub mod Agreed
pub mod Reordered

pub mod Cuts
pub mod NameLines
pub mod Roots

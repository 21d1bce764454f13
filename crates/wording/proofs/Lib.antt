pub mod Aligned
pub mod Modules
pub mod Ranges

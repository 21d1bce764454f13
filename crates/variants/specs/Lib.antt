pub mod Own
pub mod Spaces
pub mod Tags
pub mod Variants

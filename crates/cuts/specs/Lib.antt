pub mod Asked
pub mod Reached
pub mod Verdicts

pub mod Answers
pub mod Rustc
pub mod Tallies
pub mod Verdicts

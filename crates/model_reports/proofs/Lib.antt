pub mod Answered
pub mod Piled
pub mod Taken

pub mod AllRead
mod Ran
pub mod Why

pub mod Clauses
pub mod Columns
pub mod Kinds
pub mod Lines
pub mod Names
pub mod Spelling

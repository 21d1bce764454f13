pub mod Stored
pub mod Tables
pub mod Ledgers
pub mod Fresh
pub mod Held
pub mod Taken

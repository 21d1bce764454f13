pub mod Deliveries
pub mod Globs
pub mod Holding
pub mod InTurn
pub mod IndexData
pub mod Places
pub mod Shadowing
pub mod Views

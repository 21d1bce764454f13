pub mod Agreements
pub mod Orders

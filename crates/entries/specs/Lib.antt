pub mod Accounts
pub mod Entries
pub mod Merges
pub mod Viewers
pub mod Visibilities

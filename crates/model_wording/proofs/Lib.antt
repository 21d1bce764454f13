pub mod Alone
pub mod Filtered
pub mod Joined

pub mod Latest
pub mod Finds
pub mod Positions
pub mod Walks
pub mod Growth
pub mod Fresh
pub mod Buckets

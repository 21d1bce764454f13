pub mod Delivered
pub mod Rows
pub mod Tags
pub mod Told
pub mod Taken

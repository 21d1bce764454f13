pub mod Reasons
pub mod Counted
pub mod Noting

pub mod Climbs
pub mod Kept
pub mod Viewed
pub mod Visible

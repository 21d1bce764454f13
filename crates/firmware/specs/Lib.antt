pub mod Definitions
pub mod Deliveries
pub mod Models
pub mod Parts
pub mod Paths
pub mod Piles
pub mod Surveys
pub mod Words

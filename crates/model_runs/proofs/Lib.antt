pub mod Asking
pub mod Modelling
pub mod Positions
pub mod Steps

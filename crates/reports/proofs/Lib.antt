pub mod Receiving
pub mod Seeing

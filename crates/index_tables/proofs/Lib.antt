pub mod Accepted
pub mod Rules
pub mod Sound
pub mod Taking
pub mod Turns

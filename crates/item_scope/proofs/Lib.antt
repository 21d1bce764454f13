pub mod Held
pub mod InTurn
pub mod Shadowed
pub mod Taken

pub mod Builtins
pub mod Editions
pub mod FaultTexts
pub mod Faults
pub mod Imports

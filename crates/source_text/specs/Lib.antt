pub mod Cells
pub mod Excerpts
pub mod Numbers
pub mod Words

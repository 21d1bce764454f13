pub mod Shapes
pub mod Rows
pub mod Checked
pub mod Tabled

pub mod Carets
pub mod CellLists
pub mod Cells
pub mod Cuts
pub mod Decimals
pub mod Encoded
pub mod Numbers
pub mod Places

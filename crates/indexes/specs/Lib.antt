pub mod Fitting
pub mod Hashed
pub mod Ledger
pub mod RowIndexes
pub mod Spaces
pub mod Storing
pub mod Table
pub mod Told

pub mod IndexRows
pub mod Loading
pub mod LoadedTables
pub mod Numbers
pub mod RowRules
pub mod RowTests

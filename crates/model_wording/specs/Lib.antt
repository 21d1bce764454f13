pub mod Comparing
pub mod ItemTold
pub mod ModelTold
pub mod ReasonTold
pub mod ModelJson
pub mod Models
pub mod Reasons

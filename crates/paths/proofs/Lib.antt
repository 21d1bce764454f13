pub mod Apart
pub mod Numbers

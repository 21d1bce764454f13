pub mod Base
pub mod Items
pub mod Written
pub mod Receiving
pub mod Sights
pub mod Styles

pub mod Json
pub mod PlaceJson
pub mod AnswerJson

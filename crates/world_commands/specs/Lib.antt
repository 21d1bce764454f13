pub mod AnswerTexts
pub mod Answers
pub mod Commands
pub mod EntryTexts
pub mod Words

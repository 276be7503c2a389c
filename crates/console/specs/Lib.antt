pub mod Text
pub mod AnswerText
pub mod Input
pub mod Buffer
pub mod Inside

pub mod AnswerBytes
pub mod LoadAccepted

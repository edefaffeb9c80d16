mod AnswerDocuments
pub mod AnswerVerdicts
pub mod EveryAnswer
pub mod BlockTexts
mod FactAnswers
mod FactDocuments
pub mod KeptParts
mod Places
mod SearchAnswers

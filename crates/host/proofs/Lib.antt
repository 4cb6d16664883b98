pub mod MarkLaws
pub mod NodeLaws
pub mod AnswerLaws

pub mod AnswerLaws
pub mod JudgedLaws
pub mod StampLaws

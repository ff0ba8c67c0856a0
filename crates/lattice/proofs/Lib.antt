-- Laws that functions' proofs cite.
pub mod TableLaws
pub mod RecordLaws
pub mod AnswerLaws

pub mod CauseLemmas
pub mod AnswerLemmas

pub mod AnswerLemmas
pub mod CauseLemmas
pub mod FoundLemmas
pub mod AtomLemmas
pub mod SignatureLemmas
pub mod StatLemmas

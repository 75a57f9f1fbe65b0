pub mod QueryLemmas
pub mod TurnLemmas
pub mod TalkLemmas
pub mod MachineLemmas
pub mod PassLemmas
pub mod RoundLemmas
pub mod StateLemmas
pub mod CompleteLemmas

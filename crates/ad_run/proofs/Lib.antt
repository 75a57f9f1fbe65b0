pub mod NoteLemmas
pub mod RunLemmas
pub mod EndLemmas
pub mod ScriptLemmas
pub mod GeneratedLemmas

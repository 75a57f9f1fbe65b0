pub mod EntityLemmas
pub mod WordLemmas
pub mod CommandLemmas
pub mod AskLemmas

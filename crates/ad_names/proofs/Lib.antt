pub mod WordSetLemmas
pub mod MemberLemmas

pub mod MemberLemmas
pub mod LineLemmas
pub mod ShapeLemmas
pub mod LengthLemmas

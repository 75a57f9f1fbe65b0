pub mod Listed
pub mod EachKind
pub mod Nothing

pub mod Characters
pub mod Fronts
pub mod Lexed
pub mod Lexemes
pub mod Says
pub mod Shapes
pub mod Spans

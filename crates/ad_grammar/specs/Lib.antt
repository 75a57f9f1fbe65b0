pub mod Axioms
pub mod Faults
pub mod Names
pub mod Nesting
pub mod Phrases
pub mod Shapes
pub mod Texts

pub mod Induction
pub mod Equality
pub mod Crossing

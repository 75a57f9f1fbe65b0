pub mod Decomposed

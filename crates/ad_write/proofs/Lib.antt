pub mod Equations
pub mod Escapes
pub mod Texts

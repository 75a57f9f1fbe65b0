pub mod Induction
pub mod Equations
pub mod EntityLemmas
pub mod SurelyLemmas
pub mod LocalityLemmas

pub mod Laws
pub mod Opened
pub mod Outcome
pub mod Prefixed
pub mod Texts

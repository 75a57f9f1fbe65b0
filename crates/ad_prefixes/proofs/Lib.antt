pub mod Prefixed
pub mod HeadLemmas

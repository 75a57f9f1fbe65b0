pub mod Joins
pub mod AheadLemmas
pub mod CommonLemmas
pub mod KnownLemmas
pub mod KnownRows

pub mod Rows
mod Bits
mod LaneLemmas
mod NextLemmas
mod CountLemmas
mod Views

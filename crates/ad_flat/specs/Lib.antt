pub mod Changes
pub mod Free
pub mod Holds
pub mod Keys
pub mod Laws
pub mod Refused
pub mod Trees
pub mod Universes

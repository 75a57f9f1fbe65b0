pub mod Searched
pub mod Wholes
pub mod Ahead
pub mod Known
pub mod Stars

pub mod Names
pub mod Generated

pub mod Output
pub mod Causes
pub mod Answered

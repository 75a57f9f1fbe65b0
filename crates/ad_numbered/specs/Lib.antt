pub mod Making
pub mod Numbered
pub mod Refused

pub mod Firsts
pub mod Listed
pub mod Numbering
pub mod Spare
pub mod Entered
pub mod Refused

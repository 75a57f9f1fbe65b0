pub mod Firsts
pub mod Depends
pub mod Classes
pub mod Nests
pub mod Genuine
pub mod Affected

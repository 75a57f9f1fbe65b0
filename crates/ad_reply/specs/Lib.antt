pub mod Causes
pub mod Replies
pub mod Bodies
pub mod Written
pub mod Counted
pub mod Atoms
pub mod Stats

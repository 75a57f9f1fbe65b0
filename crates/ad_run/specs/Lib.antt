pub mod Statuses
pub mod Notes
pub mod Inputs
pub mod Causes
pub mod Ends
pub mod Runs

pub mod Changes
pub mod Touches
pub mod Marks
pub mod Plans

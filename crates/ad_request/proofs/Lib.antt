pub mod LineLemmas
pub mod Cutting
pub mod Reading
pub mod Deciding
pub mod Asking

pub mod Declarations
pub mod Forms
pub mod Opening
pub mod Outcomes
pub mod Refusals
pub mod Either

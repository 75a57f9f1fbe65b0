pub mod Log
pub mod Limit
pub mod Sight
pub mod Edition
pub mod State
pub mod Editions
pub mod Events
pub mod Laws

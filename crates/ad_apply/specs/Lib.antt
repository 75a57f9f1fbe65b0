pub mod Same
pub mod Apply
pub mod Places
pub mod Steps
pub mod Working
pub mod Laws

pub mod Trees
pub mod Once
pub mod Either

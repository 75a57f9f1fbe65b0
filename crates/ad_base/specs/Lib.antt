pub mod Decimal
pub mod Words
pub mod Limits
pub mod Kinds

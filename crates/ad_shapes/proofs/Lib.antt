pub mod Mapped
pub mod Alike

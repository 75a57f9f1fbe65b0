pub mod Items
pub mod Shapes
pub mod Stacks
pub mod Built

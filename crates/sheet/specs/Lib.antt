-- The sheet of what a desk shows.
pub mod Shapes
pub mod Sheeted
pub mod Laws

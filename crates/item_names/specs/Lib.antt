-- The items by row and by name.
pub mod Shapes
pub mod Names
pub mod Laws

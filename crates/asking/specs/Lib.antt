-- What a typed line asks for.
pub mod Shapes
pub mod Asks
pub mod Vectors

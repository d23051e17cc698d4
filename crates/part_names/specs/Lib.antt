-- The parts by number and by name.
pub mod Shapes
pub mod Names
pub mod Laws

-- What is held of one item, and what it shows.
pub mod Shapes
pub mod Cell

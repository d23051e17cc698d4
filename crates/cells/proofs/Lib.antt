-- The laws of the cells, one by one, and single outcome.
pub mod Cells
pub mod Single

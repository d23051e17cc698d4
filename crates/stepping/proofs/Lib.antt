-- Single outcome of the spin's functions.
pub mod Single

-- Single outcome of the reader.
pub mod Single
pub mod Spots

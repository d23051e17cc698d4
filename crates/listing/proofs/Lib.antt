-- The laws of the lister.
pub mod Front
pub mod Pieces
pub mod Laws
pub mod Single
pub mod Example

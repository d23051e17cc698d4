-- The words of a line, and the laws of them.
pub mod Words
pub mod Laws

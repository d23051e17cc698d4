-- The lines of a word, and how long they get.
pub mod Bounds
pub mod Text

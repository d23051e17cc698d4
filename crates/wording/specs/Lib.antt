-- Commands by name: their words, what the words mean, and what their settings come to.
pub mod Shapes
pub mod Refusals
pub mod Written
pub mod Meaning
pub mod Judged
pub mod Laws
pub mod Vectors

-- Single outcome of what is told of a part, and the laws that the proofs are written with.
pub mod Laws
pub mod Single

-- Single outcome, and the law that the proofs are written with.
pub mod Laws
pub mod Single

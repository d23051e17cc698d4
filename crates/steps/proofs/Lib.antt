-- What the proofs of the steps are written with, and single outcome.
pub mod Runs
pub mod Single

-- Single outcome, in a file named otherwise than the function `single`.
pub mod Outcome

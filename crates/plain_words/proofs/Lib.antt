-- Commands in plain words, there and back, and single outcome.
pub mod Names
pub mod Back
pub mod Single

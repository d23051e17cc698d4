-- What holds of the names, and single outcome.
pub mod Laws
pub mod Single

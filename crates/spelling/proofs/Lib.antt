-- What `same` is true of, and single outcome.
pub mod Equal
pub mod Single

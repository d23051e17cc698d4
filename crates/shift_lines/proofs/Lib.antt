-- How the lines of a byte follow each other, where they lead, and single outcome.
pub mod Walk
pub mod Laws
pub mod Single

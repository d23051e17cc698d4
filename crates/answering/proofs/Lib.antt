-- Lines of words, and single outcome.
pub mod Orders
pub mod Single

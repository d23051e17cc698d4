-- Where a built frame stands in the buffer, and single outcome.
pub mod Place
pub mod Single

-- What the machine makes of a byte, that one float alone is it, single outcome, and the worked values.
pub mod Exact
pub mod OneFloat
pub mod Single
pub mod Cases

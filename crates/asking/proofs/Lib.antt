-- What lines ask for, and single outcome.
pub mod Lines
pub mod HexBack
pub mod Single

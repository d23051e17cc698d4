-- What holds of the sheet, and single outcome.
pub mod Laws
pub mod Single

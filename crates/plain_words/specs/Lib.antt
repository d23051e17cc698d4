-- Commands in plain words.
pub mod Plain

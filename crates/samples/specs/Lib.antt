-- What a sample block is.
pub mod Made

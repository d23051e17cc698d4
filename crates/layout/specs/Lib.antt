-- What the promises of this crate say is in `block`; Steps is for private functions alone.
pub mod Steps

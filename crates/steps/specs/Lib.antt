-- What a bench is after some steps.
pub mod Steps

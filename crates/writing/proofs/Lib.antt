-- Single outcome of the writer.
pub mod Single

-- The check of a block command (01, "Command words"), its worked values and its laws.
pub mod Crc
pub mod Judged
pub mod Vectors
pub mod Laws

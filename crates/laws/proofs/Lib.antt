-- The proofs of the laws: one walk of the command table and one of the decoder; every law goes by what these two say.
pub mod Parts
pub mod Tests
pub mod WordKinds
pub mod Commands
pub mod Words
pub mod Replies
pub mod Rows
pub mod Supplies
pub mod Blocks
pub mod Begun
pub mod Bounds
pub mod Runs
pub mod Register
pub mod One
pub mod Examples

-- What is true of the rig: for every rig and word, and over every run. Each record is stated over any functions of the right types.
pub mod Parts
pub mod Results
pub mod Ordered
pub mod Replies
pub mod Rows
pub mod Supplies
pub mod Blocks
pub mod Runs
pub mod Register

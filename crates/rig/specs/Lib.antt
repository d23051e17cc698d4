-- The rules of the rig.
pub mod Records
pub mod Words
pub mod Ways
pub mod Replies
pub mod Start

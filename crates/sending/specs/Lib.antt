-- What a frame shows of the rig, and what building one does.
pub mod Sending

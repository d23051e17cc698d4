-- What passes between rig and desk.
pub mod Shapes
pub mod Slots

-- What the desk does at a slot.
pub mod Desk
pub mod Laws

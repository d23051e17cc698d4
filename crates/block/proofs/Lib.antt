-- Laws of the data blocks.
pub mod Laws
pub mod Cover
pub mod Order
pub mod Unread
pub mod Single

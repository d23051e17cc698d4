-- Digits, and a page that texts are put into.
pub mod Digits
pub mod Page

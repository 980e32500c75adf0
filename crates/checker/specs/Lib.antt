-- The specifications of checking a list.
pub mod Replies

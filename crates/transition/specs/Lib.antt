-- The specifications of real moves of a table: one, those of a list, and the call's answer.
pub mod Turns
pub mod Entries
pub mod Steps

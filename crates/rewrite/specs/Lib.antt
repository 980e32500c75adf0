pub mod Active
pub mod Stored
pub mod Answers

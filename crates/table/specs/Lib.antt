pub mod Names
pub mod Answer
pub mod Outlines

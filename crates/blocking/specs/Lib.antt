-- The specification of the goal part that blocks.
pub mod Unmet
pub mod Answer

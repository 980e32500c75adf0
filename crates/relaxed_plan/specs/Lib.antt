-- The specification of the plan's answer.
pub mod Answer

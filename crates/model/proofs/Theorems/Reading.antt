-- What the checks of a table and of a state give: an accepted table is the print of its task, which is within every limit, and its
-- marks are where its blocks begin; an accepted state is the bytes of its state; a refusal's number and place; check 7 finds a closed
-- walk exactly where there is one; its edges are the terms of weight not 0; a task looks at its own propositions and variables alone.
pub mod Kept
pub mod Ranges
pub mod Commands
pub mod Checks
pub mod Appending
pub mod Soundness
pub mod Reads
pub mod Circles
pub mod Edges
pub mod Marks
pub mod Active
pub mod Accepted
pub mod States
pub mod Parts
pub mod Places
pub mod Agreeing

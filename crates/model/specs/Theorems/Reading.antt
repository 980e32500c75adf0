-- The definitions that the theorems of proofs/Theorems/Reading are stated with. Assumes nothing.
pub mod WellFormed
pub mod Commands
pub mod Checks
pub mod Soundness
pub mod Circles
pub mod Edges
pub mod Marks
pub mod Active
pub mod Accepted
pub mod States
pub mod Places
pub mod Agreeing

-- The definitions that the theorems of proofs/Theorems are stated with. Assumes nothing.
pub mod Moves
pub mod Lists
pub mod Answers
pub mod Codes
pub mod Agreeing
pub mod NoPlan
pub mod Cases

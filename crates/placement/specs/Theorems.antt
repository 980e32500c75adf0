-- The definitions that the theorems of proofs/Theorems are stated with. Assumes nothing.
pub mod Earliest
pub mod Best
pub mod Checks
pub mod Walk
pub mod Starts
pub mod Answers
pub mod Codes
pub mod Cases

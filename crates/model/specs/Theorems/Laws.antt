-- The definitions that the theorems of proofs/Theorems/Laws are stated with. Assumes nothing.
pub mod Searching
pub mod Counting

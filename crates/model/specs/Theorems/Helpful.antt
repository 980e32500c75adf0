-- The definitions that the theorems of proofs/Theorems/Helpful are stated with. Assumes nothing.
pub mod Cases

-- The definitions that the theorems of proofs/Theorems/Rewriting are stated with. Assumes nothing.
pub mod Solving
pub mod Accepted
pub mod Normal
pub mod Plans
pub mod Helpful
pub mod EndToEnd
pub mod Cases
pub mod Instance

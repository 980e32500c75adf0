-- The definitions that the theorems of proofs/Theorems/Sizes are stated with. Assumes nothing.
pub mod Bounds
pub mod States
pub mod Layers
pub mod Targets
pub mod Descents
pub mod Plans
pub mod Stored
pub mod Answers

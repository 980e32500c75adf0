-- The definitions that the theorems of proofs/Theorems are stated with. Assumes nothing.
pub mod Laws
pub mod Reading
pub mod Printing
pub mod NormalForm
pub mod Layers
pub mod Plans
pub mod Sizes
pub mod Campaigns
pub mod Helpful
pub mod Blocking
pub mod Pddl
pub mod Rewriting

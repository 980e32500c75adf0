-- The definitions that the theorems of proofs/Theorems/Layers are stated with. Assumes nothing.
pub mod Order
pub mod Settled
pub mod Quiet
pub mod Bound
pub mod Answer
pub mod Memories
pub mod Building
pub mod Entries

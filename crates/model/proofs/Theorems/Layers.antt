-- Layers rise; the outcome is the one layer that is `Reached` or `Exhausted`, within (A + N + 1) × (N + 1); "no plan" is right; what
-- building leaves in memory.
pub mod Order
pub mod NextLayer
pub mod Settled
pub mod Relaxation
pub mod Quiet
pub mod Bound
pub mod Answer
pub mod Building
pub mod Entries
pub mod Memories
pub mod Rebuilding

-- The specification of the helpful moves: what a block supports; the set.
pub mod Support
pub mod Sets

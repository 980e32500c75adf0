-- The specification of one layer down from layer memory.
pub mod Layers

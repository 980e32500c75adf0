-- The specifications of the passes over the layers, and of the records that are kept.
pub mod Passes
pub mod Keeping

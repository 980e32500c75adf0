-- The definitions that the theorems of proofs/Theorems/Printing are stated with. Assumes nothing.
pub mod SeenBytes
pub mod Printed
pub mod Passing
pub mod Items
pub mod Blocks
pub mod Moves
pub mod Tables
pub mod Decimals

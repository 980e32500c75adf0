-- The specifications of the targets: wants in arrays, sums and blocks that are wanted, what is carried down.
pub mod Encoding
pub mod Wanting
pub mod Blocks
pub mod Carrying

-- The specifications of reading one block of an accepted table: bytes at an offset, the items that are left, sums over a state
-- and over a layer, whole blocks.
pub mod Bytes
pub mod Items
pub mod Closing
pub mod Sums
pub mod Terms
pub mod Remaining
pub mod Blocks
pub mod Unmet
pub mod Streams
pub mod Parts

-- The specifications of a block's normal form: the bytes of its effects, and its items one by one.
pub mod Effects
pub mod Blocks

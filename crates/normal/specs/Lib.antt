-- The specifications of normalising: a table's normal form block by block, and the call's answer.
pub mod Tables
pub mod Heads

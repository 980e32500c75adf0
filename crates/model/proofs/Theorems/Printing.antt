-- What is written is read back: a task that meets every check is accepted as that task; records and decimal digits too. What a
-- lent output then holds.
pub mod SeenBytes
pub mod Printed
pub mod Passing
pub mod Operands
pub mod Items
pub mod Blocks
pub mod Moves
pub mod Tables
pub mod Bytes
pub mod Decimals
pub mod ReadBack
pub mod Outputs

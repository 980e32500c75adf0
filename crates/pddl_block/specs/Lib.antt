-- The specifications of a block's PDDL text: elements a line each, and the walk over the block's items.
pub mod Rows
pub mod Items
pub mod Walking

-- The specifications of one real move: what its items do to the propositions and the values.
pub mod Changes
pub mod Running
pub mod Walking
pub mod Values
pub mod Moving

-- The helpful moves: what makes a move helpful; what the set holds, in plain words; that the moves which the plan takes at layer 0 are in it;
-- when it is empty; plan's answer from bytes; small cases by computation.
pub mod Supporting
pub mod Meaning
pub mod Taken
pub mod NeverEmpty
pub mod Calls
pub mod Cases

-- The specifications of numbers, names, declarations and sums of the PDDL text.
pub mod Names
pub mod Sums

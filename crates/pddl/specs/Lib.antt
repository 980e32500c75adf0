-- The specifications of the call that writes PDDL text.
pub mod Calls

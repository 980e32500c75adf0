-- The specifications of the PDDL text of a table and a state: the documents in the pieces that are written, and their room.
pub mod Documents
pub mod Printable

-- The specifications of whole-number arithmetic: linear arithmetic over ℤ,
-- division that rounds up, numbers as bytes, bytes stored in a list.
pub mod Linear
pub mod Ceiling
pub mod BigEndian
pub mod Store

-- The specifications of the moves that are taken in a layer: their counts, and the wants that they bring.
pub mod Taking
pub mod Descending

pub mod Raising
pub mod Applying
pub mod Walking
pub mod UsingMoves

-- What only the checker's inner functions cite: tallies, and what is kept after a list of steps.
pub mod Tallies

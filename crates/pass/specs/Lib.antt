-- What only the checker's inner functions cite.
pub mod Passes

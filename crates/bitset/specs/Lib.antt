-- What a set of words is.
pub mod Bits

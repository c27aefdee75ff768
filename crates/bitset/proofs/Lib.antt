-- The laws of sets of words.
pub mod Digits
pub mod BitSets
pub mod Members
pub mod Others
pub mod Counts
pub mod Theorems
pub mod Ones
pub mod Taking

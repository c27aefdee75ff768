pub mod Linking
pub mod NextSets
pub mod Renewing

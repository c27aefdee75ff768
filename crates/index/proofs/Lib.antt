pub mod FirstLaws
pub mod Theorems

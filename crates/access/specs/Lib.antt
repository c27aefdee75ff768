pub mod Ranges
pub mod Parts
pub mod Tiling
pub mod Holding
pub mod Sizes

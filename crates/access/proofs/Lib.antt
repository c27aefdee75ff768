pub mod RangeLaws
pub mod PieceLaws
pub mod PartLaws
pub mod TilingLaws
pub mod HeldLaws
pub mod SizeLaws
pub mod Cases
pub mod Theorems

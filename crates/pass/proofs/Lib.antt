-- The one pass, part by part, and that its verdict is the lowest rule broken.
pub mod Folding
pub mod Ranged
pub mod Parts
pub mod Placed
pub mod Stored
pub mod Linked
pub mod Ordered
pub mod Decided

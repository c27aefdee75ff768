pub mod Repair
pub mod Reading
pub mod Claims

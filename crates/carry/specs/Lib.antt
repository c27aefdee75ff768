pub mod Carry
pub mod Carrying

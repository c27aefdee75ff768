pub mod Codec
pub mod Encoding
pub mod Rest
pub mod Decoding
pub mod Theorems
pub mod Cases

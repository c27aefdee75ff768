pub mod Second
pub mod Putting
pub mod Turns
pub mod Answering
pub mod Copying
pub mod Settled
pub mod Theorems
pub mod Cases

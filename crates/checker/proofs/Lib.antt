-- Laws of the answer, worked plans, and the answer to read against what is computed.
pub mod Cases
pub mod Judging
pub mod Theorems

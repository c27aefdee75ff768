pub mod Next
pub mod Calling
pub mod Running
pub mod Theorems

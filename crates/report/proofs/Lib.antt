pub mod CountLaws
pub mod Rounded
pub mod Theorems
pub mod Cases

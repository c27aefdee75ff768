pub mod Admitting
pub mod Answering
pub mod OpenLaws
pub mod Following
pub mod Currents
pub mod Local
pub mod Theorems

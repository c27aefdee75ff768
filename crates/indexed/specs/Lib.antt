pub mod Admitting
pub mod Opening
pub mod Calls
pub mod Promises

pub mod Checks
pub mod LongPlans

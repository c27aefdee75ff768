pub mod Alarms
pub mod Ratios

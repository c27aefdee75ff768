pub mod Events
pub mod Demand
pub mod Own
pub mod LoadsBack

pub mod Planner
pub mod Planning

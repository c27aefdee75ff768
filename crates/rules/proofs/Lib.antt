-- The rules to read against what is computed, and what a plan that keeps them says of each step.
pub mod Once
pub mod Deciding
pub mod Knowing
pub mod Places
pub mod StepLaws
pub mod Dealing
pub mod Facts
pub mod Wording
pub mod Fencing
pub mod Lowest
pub mod Good
pub mod Accepting

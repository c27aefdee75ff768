pub mod Sessions
pub mod HeldEvents

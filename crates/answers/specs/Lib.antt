pub mod Loading
pub mod Numbers

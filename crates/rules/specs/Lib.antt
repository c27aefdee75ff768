-- The rules as they are computed, and the rules to read.
pub mod Rules
pub mod Reading

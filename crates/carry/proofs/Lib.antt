pub mod CarryLaws
pub mod Turns
pub mod AnswerLaws
pub mod Linked
pub mod Theorems

pub mod Storing
pub mod AnswerLaws
pub mod StepLists
pub mod Accepted
pub mod Theorems

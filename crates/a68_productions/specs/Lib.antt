pub mod Choices
pub mod Clauses
pub mod Expand

pub mod Finite
pub mod Rounds
pub mod Rows

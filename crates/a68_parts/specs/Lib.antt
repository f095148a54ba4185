pub mod Loops
pub mod Rowing
pub mod Selecting

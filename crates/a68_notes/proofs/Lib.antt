pub mod Noting
pub mod Applying
pub mod Rowing
pub mod Needing
pub mod Ones
pub mod Leading
pub mod Calling

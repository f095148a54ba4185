pub mod Between
pub mod Choosing
pub mod Quoting
pub mod Reaching
pub mod Selecting

pub mod Bounds
pub mod Longer
pub mod Alone

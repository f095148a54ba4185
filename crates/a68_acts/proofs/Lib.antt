pub mod Passing
pub mod Waiting

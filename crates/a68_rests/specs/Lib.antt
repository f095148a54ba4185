pub mod Resting
pub mod Waiting

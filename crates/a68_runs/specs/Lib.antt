pub mod Bounds
pub mod Running
pub mod Opens

pub mod Heights
pub mod Reach
pub mod Room

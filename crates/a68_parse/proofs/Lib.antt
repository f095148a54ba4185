pub mod Bounds
pub mod Beginnings
pub mod Sound
pub mod Trees
pub mod Turning

pub mod Acts
pub mod Bound
pub mod Codes
pub mod Frames
pub mod Inside

pub mod Frames
pub mod Needs
pub mod Tables
pub mod Outlooks

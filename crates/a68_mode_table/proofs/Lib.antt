pub mod Alike
pub mod Filed
pub mod Joining
pub mod Numbers
pub mod Once
pub mod Shapes
pub mod Whole

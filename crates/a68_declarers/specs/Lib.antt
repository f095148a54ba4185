pub mod Declarers
pub mod Numbers
pub mod Shapes
pub mod Modes
pub mod Words
pub mod Actual
pub mod Bounds

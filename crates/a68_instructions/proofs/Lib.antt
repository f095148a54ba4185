pub mod Acting
pub mod Settling
pub mod Sparing
pub mod Yielding

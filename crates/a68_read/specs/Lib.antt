pub mod Acts
pub mod Awaits
pub mod Fits
pub mod Middles
pub mod Readings
pub mod Weights

pub mod Aiming
pub mod Known
pub mod Labels
pub mod Linking
pub mod Stopping

pub mod Logging
pub mod Longs

pub mod Filled
pub mod Lasts
pub mod Parts
pub mod Plainly
pub mod Skipping
pub mod Taking

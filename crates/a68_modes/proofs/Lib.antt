pub mod Holding
pub mod Measuring

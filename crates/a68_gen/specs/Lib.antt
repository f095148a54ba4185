pub mod Fits
pub mod Operands
pub mod Refusals

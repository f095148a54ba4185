pub mod Cause
pub mod Files
pub mod Known
pub mod Memory

pub mod Counted
pub mod Lined
pub mod Told

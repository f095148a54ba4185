pub mod Plainly
pub mod Told

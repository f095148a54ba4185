pub mod Tags
pub mod Defined

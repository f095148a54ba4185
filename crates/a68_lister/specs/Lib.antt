pub mod Layout
pub mod Parting
pub mod Relists

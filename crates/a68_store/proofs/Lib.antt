pub mod Binding
pub mod Counts
pub mod FramesLemmas
pub mod Places
pub mod Rows

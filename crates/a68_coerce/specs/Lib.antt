pub mod Forms
pub mod Goals
pub mod Paths
pub mod Balanced
pub mod Routes
pub mod Below
pub mod Kept

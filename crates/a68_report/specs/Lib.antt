pub mod Constants
pub mod Lines
pub mod Listing
pub mod Names
pub mod Put
pub mod Variables

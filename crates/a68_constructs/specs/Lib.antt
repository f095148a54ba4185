pub mod Endings
pub mod Loops
pub mod Sources
pub mod Steps

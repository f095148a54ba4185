pub mod Classes
pub mod Definitions
pub mod Known
pub mod Levels
pub mod Roles
pub mod Spellings
pub mod Steps

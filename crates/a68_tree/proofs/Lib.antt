pub mod Joining
pub mod Order
pub mod Phrases
pub mod Three

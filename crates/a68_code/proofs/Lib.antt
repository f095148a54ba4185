pub mod Entering
pub mod Landing
pub mod Mapping
pub mod Noting
pub mod Reading
pub mod ShortWalks
pub mod Ways

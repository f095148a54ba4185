pub mod Following
pub mod Reading
pub mod Replays
pub mod Schedules

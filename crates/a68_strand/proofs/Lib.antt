pub mod Machines
pub mod Rooms
pub mod Waking

pub mod Making
pub mod Measuring
pub mod Rooms
pub mod Stretches
pub mod Views
pub mod Wanting
pub mod Widths

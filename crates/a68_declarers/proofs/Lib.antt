pub mod There
pub mod Least
pub mod Counting
pub mod Shaping
pub mod Setting
pub mod Crowding
pub mod Marking
pub mod Barring

pub mod Slotting
pub mod Chaining
pub mod Finding
pub mod Needing
pub mod Counting
pub mod Outlooking

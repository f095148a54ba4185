pub mod Sought
pub mod Leaves
pub mod Found
pub mod Parts
pub mod Yields
pub mod Below

pub mod Given
pub mod Aside
pub mod Positions
pub mod Below

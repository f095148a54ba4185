pub mod Again
pub mod Fronts
pub mod Once
pub mod Picking
pub mod Putting
pub mod Spelling

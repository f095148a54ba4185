pub mod Founds
pub mod Integers
pub mod Inwards
pub mod Leaves
pub mod Levels
pub mod Made
pub mod Measures
pub mod Pairing
pub mod Picks
pub mod Products
pub mod Seeing
mod Seen
pub mod Shaping
pub mod Spreads

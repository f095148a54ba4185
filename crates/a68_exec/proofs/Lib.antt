pub mod Alive
pub mod Jumping
pub mod Passing
pub mod Scopes
pub mod Settled
pub mod Sparing
pub mod Taking

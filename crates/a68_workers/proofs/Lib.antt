pub mod Going
pub mod NoneLent
pub mod Sending
pub mod Sole
pub mod There
pub mod Turning
pub mod TurningAlone

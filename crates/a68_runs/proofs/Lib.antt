pub mod Listing
pub mod Opening
pub mod Running
pub mod Specifying

pub mod Order
pub mod Jumps
pub mod Rules
pub mod Units
pub mod First

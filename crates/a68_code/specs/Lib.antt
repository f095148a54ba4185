pub mod Flow
pub mod Operands
pub mod Order
pub mod Valid
pub mod Walk

pub mod Choosing
pub mod Printing
pub mod Resuming
pub mod Wanting

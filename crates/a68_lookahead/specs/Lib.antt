pub mod Ahead
pub mod Symbols
pub mod Sets

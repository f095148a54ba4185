pub mod Cyclic
pub mod Ends
pub mod Plain
pub mod RunOf
pub mod Strands

pub mod Pairs
pub mod Operators
pub mod Identified
pub mod Kept
pub mod Apart

pub mod Chars
pub mod Dividing
pub mod Fit
pub mod Moving
pub mod Powers
pub mod Rests
pub mod Subsets

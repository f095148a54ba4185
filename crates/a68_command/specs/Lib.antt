pub mod Options
pub mod Words
pub mod Splitting
pub mod Commands
pub mod Matching
pub mod Texts

pub mod Clean
pub mod Broken
pub mod Numbering
pub mod Outcome
pub mod Slopes
pub mod Unions

pub mod KnownRows
pub mod Needs
pub mod Notes
pub mod Rows
pub mod Voiding

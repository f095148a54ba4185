pub mod Entries
pub mod Signs

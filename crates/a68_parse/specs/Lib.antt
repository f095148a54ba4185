pub mod Drafted
pub mod Parses
pub mod Places
pub mod Texts

pub mod Calls
pub mod Level
pub mod Lexed
pub mod Rows
pub mod Turning
pub mod Verbs

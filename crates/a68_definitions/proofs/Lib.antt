pub mod Tagging
pub mod Defining
pub mod Alone

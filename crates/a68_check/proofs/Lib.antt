pub mod Answering
pub mod Beginning
pub mod Keeping
pub mod One

pub mod Stack
pub mod Pieces
pub mod Views
pub mod Closing
pub mod Built
